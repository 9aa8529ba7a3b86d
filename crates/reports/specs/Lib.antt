pub mod InHand
pub mod Figures
