-- A document that meets its role passes the check of it.
use Rattle.std.proofs.Common.{◌≡◌, List, ℕ, Result, Ok, refl, sym, ap, ◌∙◌, subst}
use Rattle.std.specs.Prelude.{ok_or}
use Rattle.foundation.specs.Steps.{◌>>=◌}
use Rattle.sigstore_types_parts.specs.Entries.{at_name}
use Rattle.sigstore_keys.specs.Crypto.{Crypto}
use Rattle.sigstore_tuf_text.specs.declared.error.Error.TheVariants as tuf
use Rattle.sigstore_tuf_parts.specs.declared.root.Root as declared
use Rattle.sigstore_tuf_parts.specs.Document.{Document}
use Rattle.sigstore_tuf_parts.specs.RootRoles.{meets_role_of, MeetsRole}
use Rattle.sigstore_tuf_parts.proofs.MeetsLaw.{meets_exactly}

pub step_to : {A B E : Type 0} (r : Result A E) (f : A → Result B E) (x : A) → r ≡ Ok x → (r >>= f) ≡ f x
step_to r f x e = subst (λ r. (r >>= f) ≡ f x) (sym e) refl

pub role_ok : {T : Type 0} (crypto : Crypto) (root : declared.Root) (name : List ℕ) (doc : Document T) → MeetsRole crypto root name doc → meets_role_of crypto root name doc ≡ Ok tt
unfolding meets_role_of
role_ok crypto root name doc (role, at, met) =
    step_to (ok_or (at_name name root.roles) (tuf.UnknownRole name)) _ role (ap (λ o. ok_or o (tuf.UnknownRole name)) at) ∙ (meets_exactly crypto root.keys role name doc).1 met
