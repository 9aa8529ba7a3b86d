pub mod JobEdits
