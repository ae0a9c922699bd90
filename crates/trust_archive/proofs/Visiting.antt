-- A visit that is next, as the code makes it.
use Rattle.std.proofs.Common.{◌≡◌, ℕ, List, Option, Some, None, Result, Err, sym, ap, ◌∙◌}
use Rattle.std.specs.Prelude.{ok_or, reverse, option_map}
use Rattle.jiff_core.specs.declared.timestamp.Timestamp as jiff
use Rattle.foundation.specs.Steps.{◌>>=◌}
use Rattle.sigstore_keys.specs.Crypto.{Crypto}
use Rattle.sigstore_tuf_rules.specs.declared.chain.RoleDoc.{RoleDoc}
use Rattle.sigstore_tuf_rules.specs.declared.documents.InForce.{InForce}
use Rattle.sigstore_tuf_rules.specs.declared.visit.Visit.{Visit}
use Rattle.trust_archive.specs.declared.error.ArchiveError.{ArchiveError}
use Rattle.trust_archive.specs.declared.error.ArchiveError.TheVariants as archive
use Rattle.trust_archive.specs.declared.roles.Search.{Search}
use Rattle.trust_archive.specs.Judgement.{Going, next_in, due_of, made_of, counting, next_judged_of, visited_of}
use Rattle.trust_archive.specs.Searching.{going_of}

module _ (crypto : Crypto) (now : jiff.Timestamp) (path : List ℕ) (position : ℕ) (r : RoleDoc) (set : InForce) (old new : Search) where
  pub none_next : (o : Option Visit) → o ≡ None → next_in old.left old.read (reverse old.pending.items) ≡ option_map (λ v. (v, reverse new.pending.items)) o → visited_of crypto now path position r (going_of set old) ≡ Err (archive.Order position)
  unfolding visited_of
  none_next o is h =
      ap (λ x. ok_or x (archive.Order position) >>= λ next. due_of position set next.0 r >>= λ _. made_of crypto now path position next.0 (counting next.1 (going_of set old)) r.bytes) (h ∙ ap (option_map (λ v. (v, reverse new.pending.items))) is)

  pub next_made : (o : Option Visit) (v : Visit) (answer : Result Going ArchiveError) → o ≡ Some v → next_in old.left old.read (reverse old.pending.items) ≡ option_map (λ v. (v, reverse new.pending.items)) o → new.read ≡ old.read → new.left ≡ old.left
      → next_judged_of crypto now path position v r (going_of set new) ≡ answer → visited_of crypto now path position r (going_of set old) ≡ answer
  unfolding visited_of next_judged_of
  next_made o v answer is h read left judged =
      ap (λ x. ok_or x (archive.Order position) >>= λ next. due_of position set next.0 r >>= λ _. made_of crypto now path position next.0 (counting next.1 (going_of set old)) r.bytes) (h ∙ ap (option_map (λ v. (v, reverse new.pending.items))) is)
      ∙ ap (λ rs. due_of position set v r >>= λ _. made_of crypto now path position v (counting (reverse new.pending.items) (record { set = set; pending = reverse old.pending.items; read = rs; left = old.left })) r.bytes) (sym read)
      ∙ ap (λ n. due_of position set v r >>= λ _. made_of crypto now path position v (counting (reverse new.pending.items) (record { set = set; pending = reverse old.pending.items; read = new.read; left = n })) r.bytes) (sym left) ∙ judged
