pub mod Kind
pub mod Codes
pub mod Metres
pub mod MetresLaws
pub mod Grade
pub mod GradeLaws
