-- A list in which some member passes a test, by that member.
use Rattle.std.proofs.Common.{◌≡◌, List, Bool, true, Contains}
use Rattle.std.specs.List.{list_any}
use Rattle.std.proofs.lemmas.List.Folds.{Any-from_list_any, list_any-from_Any}

pub among_from_any : {X : Type 0} (p : X → Bool) (xs : List X) → list_any p xs ≡ true → (x : X) × Contains xs x × (p x ≡ true)
among_from_any p xs h = let a = Any-from_list_any p xs h in (a.1, (a.0, a.2, a.3), a.4)

pub any_from_among : {X : Type 0} (p : X → Bool) (xs : List X) (x : X) → Contains xs x → p x ≡ true → list_any p xs ≡ true
any_from_among p xs x there h = list_any-from_Any p xs (there.0, x, there.1, there.2, h)
