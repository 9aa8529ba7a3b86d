pub mod MeshTheorems
