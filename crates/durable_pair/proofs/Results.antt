-- What results of a disk's calls say.
use Rattle.std.proofs.Common.{Result, Ok, Err, refl}
use Rattle.std.specs.Prelude.{OnOk, OnErr, IsErrOf}
use Rattle.durable_model.specs.declared.error.DiskError.{DiskError}
use Rattle.durable_model.specs.declared.error.DiskError.TheVariants.{Device, NoMemory}

pub on_ok : {T E P Q : Type 0} (r : Result T E) → OnOk r P → (P → Q) → OnOk r Q
on_ok (Ok x) has go = go has
on_ok (Err e) has go = tt

pub on_err : {T E P Q : Type 0} (r : Result T E) → OnErr r P → (P → Q) → OnErr r Q
on_err (Ok x) has go = tt
on_err (Err e) has go = go has

-- what holds however a call ended
pub each_way : {T P Q : Type 0} (r : Result T DiskError) → OnOk r P → (P → Q) → (IsErrOf r Device → Q) → (IsErrOf r NoMemory → Q) → Q
each_way (Ok x) has ok device memory = ok has
each_way (Err Device) has ok device memory = device refl
each_way (Err NoMemory) has ok device memory = memory refl

-- the same of a call whose failures do one thing
pub either_way : {T E P R Q : Type 0} (r : Result T E) → OnOk r P → (P → Q) → OnErr r R → (R → Q) → Q
either_way (Ok x) has ok failed err = ok has
either_way (Err e) has ok failed err = err failed

-- of a success two facts make one
pub both_on_ok : {T E P Q R : Type 0} (r : Result T E) → OnOk r P → OnOk r Q → (P → Q → R) → OnOk r R
both_on_ok (Ok x) p q join = join p q
both_on_ok (Err e) p q join = tt
