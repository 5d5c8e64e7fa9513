mod Tests
mod QuotedLaws
mod ArgumentLaws
mod Rows
