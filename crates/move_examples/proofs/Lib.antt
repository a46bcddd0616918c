pub mod DefinedMoves
