pub mod KeyLaws
pub mod ModifiedLaws
pub mod NoteLaws
pub mod RightLaws
pub mod SentLaws
pub mod TypeLaws
