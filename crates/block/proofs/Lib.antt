pub mod BoxLaws
pub mod HeadLaws
pub mod PlaceLaws
pub mod ReadyLaws
pub mod RequestLaws
pub mod ServeLaws
