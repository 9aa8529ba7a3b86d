pub mod FileTheorems
