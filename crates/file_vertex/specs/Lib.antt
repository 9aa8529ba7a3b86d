pub mod FileVertex
