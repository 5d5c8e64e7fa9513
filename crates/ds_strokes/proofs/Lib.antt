pub mod RoomLaws
pub mod StoreLaws
pub mod PressLaws
pub mod ReadyLaws
pub mod StrokeLaws
pub mod TouchLaws
pub mod SoundLaws
pub mod Rows
