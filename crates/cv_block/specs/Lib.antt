-- How encodings read and write many characters at once. It exists for speed: no contract of a codec cites it.
pub mod StatelessForms
pub mod Surrogates
pub mod Units
pub mod PackedWords
pub mod Slack
pub mod AsciiRuns
