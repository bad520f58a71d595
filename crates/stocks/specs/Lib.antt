pub mod BuildUps
pub mod RowLists
pub mod RowStocks
