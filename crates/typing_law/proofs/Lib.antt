mod Found
mod Types
pub mod NoFaults
pub mod Standing
mod Parts
mod Values
pub mod Nodes
mod Operators
mod Arguments
mod Names
mod Spelled
mod Casts
mod NodeKinds
mod Dots
mod Exprs
mod Scopes
mod Statements
mod Targets
mod BodyNodes
mod SameTypes
mod BodyParts
mod Stmts
mod Members
mod Tables
mod Numbered
mod FileClasses
mod FileMakers
mod MadeMakers
mod FileMethods
mod FileSelectors
mod FileChosen
mod FileLines
mod FileMessages
mod FileLookups
mod FileFields
mod FieldRows
mod FileMembers
pub mod LiteralKinds
mod FoldedOperators
pub mod FoldedNodes
mod FileConstants
mod FileAgrees
mod WholeLists
mod WholeClasses
mod WholeMembers
mod WholeMain
mod WholeContracts
mod WholeFields
mod WholeBuiltIn
mod WholePicked
mod WholeOverrides
mod WholeChosen
mod WholeProgram
