pub use Rattle.rooms_words.specs.NodeState
pub use Rattle.rooms_words.specs.Deal
pub use Rattle.rooms_words.specs.Rule
pub use Rattle.rooms_words.specs.Steps
pub use Rattle.rooms_words.specs.Views
pub use Rattle.rooms_words.specs.Words
pub use Rattle.rooms_words.specs.declared.view.Opening
pub use Rattle.rooms_words.specs.declared.view.View
