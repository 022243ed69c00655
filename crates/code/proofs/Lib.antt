pub mod Bounds
pub mod First
pub mod Positions
pub mod Recovered
pub mod Signs
pub mod Totals
