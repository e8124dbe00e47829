pub mod FirstPageLaws
pub mod HeadLaws
