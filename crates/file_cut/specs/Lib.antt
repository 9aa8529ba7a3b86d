pub mod FileCut
