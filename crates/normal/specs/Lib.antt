pub mod NormalForm
pub mod NormalLaws
pub mod Written
pub mod Given
pub mod WrittenLaws
pub mod Counting
pub mod ReadBack
pub mod Examples
