pub mod Screens
pub mod Answers
pub mod Dialogue
pub mod DialogueTalk
pub mod SessionView
pub mod Laws
