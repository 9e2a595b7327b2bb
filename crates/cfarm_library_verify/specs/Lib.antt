pub use Rattle.cfarm_verify.specs.Lines
pub use Rattle.cfarm_verify.specs.Told
pub use Rattle.cfarm_verify.specs.declared.error.VerifyError
