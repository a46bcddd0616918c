-- What public clauses cite.
pub mod Answers
pub mod Belongs
pub mod FlatModels
pub mod Leaves
pub mod ModelSets
pub mod Names
pub mod Readers
pub mod Shapes
pub mod Sizes
-- What only the models of types and private clauses cite.
pub mod ShapeCodes
pub mod TableModels
