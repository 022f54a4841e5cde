-- What `reduce` answers with a closure that computes h.
use Rattle.std.proofs.Common.{◌≡◌, List, Some, None, Option, refl}
use Rattle.std.specs.Fn.{Called, Mut}
use Rattle.std.specs.Iterator.{ReducesItems}
use Rattle.std.specs.List.{FoldsTo, reduce}
use Rattle.std.proofs.lemmas.Fn.{fold_same, FoldsTo-push}
use Rattle.std.proofs.lemmas.Iterator.{YieldsList}
use Rattle.std.proofs.lemmas.Iterator.Consumers.{reduce_from_yields_List}

pub reduced : {S A F : Type 0} {steps : S → Option A → S → Type 0} {g : Mut F (A × (A × Unit {0})) A} {all : List A} (h : A → A → A) (f : F) (s : S) (r : Option A)
    → ((a x b : A) (q : F) → Called g f (a, (x, tt)) b q → (b ≡ h a x) × (q ≡ f)) → ReducesItems steps g s f r → YieldsList steps (λ x. x) s all → r ≡ reduce h all
reduced h f s None k d y = reduce_from_yields_List h s None d y
reduced {A = A} {g = g} h f s (Some v) k d y =
    let turn = λ (p z c : A). c ≡ h p z in
    let turns = fold_same g (FoldsTo turn d.0) f (λ xs a x b q j c. (FoldsTo-push turn d.0 xs a x b j (k a x b q c).0, (k a x b q c).1)) d.1 d.0 v d.2 refl d.4 in
    reduce_from_yields_List h s (Some v) (d.0, d.1, d.3, turns) y
