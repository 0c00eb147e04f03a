pub mod Grammar
pub mod GrammarLaws
pub mod Forms
pub mod Replies
pub mod Reader
pub mod Reading
pub mod Draws
pub mod DemoScript
