pub mod FileFaceEdits
