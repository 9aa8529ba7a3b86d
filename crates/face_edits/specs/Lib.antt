pub mod FaceEdits
pub mod FaceAnswers
pub mod FaceTheorems
