pub mod Laws
pub mod Faces
pub mod Shells
pub mod Held
pub mod FileText
