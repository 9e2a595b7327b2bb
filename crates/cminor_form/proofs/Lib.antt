pub mod ExpressionForms
pub mod StatementForms
