pub mod ArenaTrees
pub mod Heaps
pub mod LevelTrees
pub mod Merges
pub mod Nexts
pub mod OtherOrders
