pub mod TableServices
