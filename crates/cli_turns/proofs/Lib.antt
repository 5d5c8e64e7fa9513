pub mod BindLaws
pub mod DraftLaws
mod JoinLaws
