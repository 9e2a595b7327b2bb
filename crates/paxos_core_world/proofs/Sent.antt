-- What is among the messages of two lists.
use Rattle.std.proofs.Common.{◌⊎◌, List, [], ◌∷◌, ◌++◌, inl, inr}
use Rattle.paxos_core_world.specs.World.{Has}

pub has-append : {A : Type 0} (x : A) (xs ys : List A) → Has x (xs ++ ys) → Has x xs ⊎ Has x ys
has-append x [] ys h = inr h
has-append x (y ∷ xs) ys (inl e) = inl (inl e)
has-append x (y ∷ xs) ys (inr h) = elim (has-append x xs ys h) [ inl old ↦ inl (inr old) | inr new ↦ inr new ]

pub has-append_left : {A : Type 0} (x : A) (xs ys : List A) → Has x xs → Has x (xs ++ ys)
has-append_left x (y ∷ xs) ys (inl e) = inl e
has-append_left x (y ∷ xs) ys (inr h) = inr (has-append_left x xs ys h)
has-append_left x [] ys h = absurd h

pub has-append_right : {A : Type 0} (x : A) (xs ys : List A) → Has x ys → Has x (xs ++ ys)
has-append_right x [] ys h = h
has-append_right x (y ∷ xs) ys h = inr (has-append_right x xs ys h)
