pub mod UnitNames
