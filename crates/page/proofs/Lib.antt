pub mod Pages
pub mod Only
