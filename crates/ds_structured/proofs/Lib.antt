mod FieldLaws
mod Rows
