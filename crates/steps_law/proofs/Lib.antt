mod Parts
mod Objects
mod Calls
mod Constructors
mod Expressions
mod Statements
mod Runs
