pub mod SentKeys
pub mod StrokeLaws
