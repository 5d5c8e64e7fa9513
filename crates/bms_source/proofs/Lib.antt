pub mod Behind
pub mod ColumnLaws
pub mod TextTest
pub mod PrintLaws
