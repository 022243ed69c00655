pub mod Heaps
pub mod Shape
pub mod Sorting
pub mod Sorts
