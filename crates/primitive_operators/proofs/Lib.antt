pub mod TextUnits
