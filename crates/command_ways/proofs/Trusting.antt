-- A trusted root that was given is trusted, and it is the one that is offered.
use Rattle.std.proofs.Common.{◌≡◌, ◌⊎◌, inl, inr, ℕ, List, Some, Result, Ok, Err, refl, sym, ap, ◌∙◌, subst}
use Rattle.foundation.specs.Results.{ok_same, err_same, no_both}
use Rattle.foundation.specs.Watched.{Watched}
use Rattle.sigstore_tuf_text.specs.declared.error.Error.{Error as TufError}
use Rattle.sigstore_tuf_text.specs.declared.error.Error.TheVariants as tuf
use Rattle.sigstore_tuf_rules.specs.declared.chain.TrustChain.{TrustChain}
use Rattle.sigstore_verify.specs.Complete.{OffersChain, StaysWarm}
use Rattle.sigstore_verify.specs.FromRoot.{trust_path}
use Rattle.sigstore_verify.specs.Inputs.{Anchor, Places}
use Rattle.sigstore_verify.specs.Promises.{PromisesChain}
use Rattle.trust_archive.proofs.Whole.{chain_complete}
use Rattle.command_files.specs.declared.answer.Answer.{Answer}
use Rattle.command_files.proofs.Starts.{quiet_not_rose}
use Rattle.command_files.proofs.Wholes.{same_whole, never_unread}
use Rattle.command_archive.specs.Reading.{max_archive, held_in}
use Rattle.command_ways.specs.declared.layout.TrustedBy.{TrustedBy}
use Rattle.command_ways.specs.declared.layout.TrustedBy.TheVariants as way
use Rattle.command_ways.specs.declared.trust.Trust.{Trust}
use Rattle.command_ways.specs.declared.trust.Trust.TheVariants.{Chain, File}
use Rattle.command_ways.specs.declared.trust.TrustFault.{TrustFault}
use Rattle.command_ways.specs.declared.trust.TrustFault.TheVariants as fault
use Rattle.command_ways.specs.Complete.{TellsArchive, OffersTrust}
use Rattle.command_ways.specs.Report.{untrusted_answer}
use Rattle.command_ways.specs.Trust.{IsTrusted, Sources, places_of, walk_fault_of, walked_as, IsHeld, Archived, unread, read, wanting, Handed, GivesTrust, by_repository, by_archive, by_caller}

-- ---- what is given is trusted

module _ (anchor : Anchor) where
  walked_trusted : (before after : Places) (trust : Trust) (answer : Result TrustChain TufError) → PromisesChain anchor before after answer
      → Ok trust ≡ walked_as answer → IsTrusted anchor trust
  walked_trusted before after trust (Ok chain) p e = subst (IsTrusted anchor) (sym (ok_same trust (Chain chain) e)) p.accepted
  walked_trusted before after trust (Err e) p eq = no_both trust (walk_fault_of e) eq

  held_trusted : (bytes : List ℕ) (trust : Trust) → IsHeld anchor bytes (Ok trust) → IsTrusted anchor trust
  held_trusted bytes trust (chain, same, held, holds) = subst (IsTrusted anchor) (sym same) holds.trusted

  archived_trusted : (old new : Watched (List ℕ)) (trust : Trust) → Archived anchor old new (Ok trust) → IsTrusted anchor trust
  archived_trusted old new trust (unread u e) = no_both trust fault.Unread e
  archived_trusted old new trust (read bytes w h) = held_trusted bytes trust h
  archived_trusted old new trust (wanting e) = no_both trust fault.NoMemory e

  pub given_trusted : (by : TrustedBy) (before after : Sources) (trust : Trust) → GivesTrust anchor by before after (Ok trust) → IsTrusted anchor trust
  given_trusted by before after trust (by_repository is (answer, p, e) same) = walked_trusted (places_of before) (places_of after) trust answer p e
  given_trusted by before after trust (by_archive is same a) = archived_trusted before.archive after.archive trust a
  given_trusted by before after trust (by_caller is same h) = subst (IsTrusted anchor) (sym h) refl

-- ---- what is given where a trusted root is offered

-- the answer is this trusted root, or memory is wanting
abbrev IsOffered : Trust → Result Trust TrustFault → Type 0
IsOffered trust result = (result ≡ Err fault.NoMemory) ⊎ (result ≡ Ok trust)

module _ (anchor : Anchor) (result : Result Trust TrustFault) where
  walked_offered : (before after : Places) (chain : TrustChain) → OffersChain anchor before after chain → (answer : Result TrustChain TufError)
      → PromisesChain anchor before after answer → result ≡ walked_as answer → IsOffered (Chain chain) result
  walked_offered before after chain offer answer p e = by_complete (p.complete chain offer)
    where
      by_complete : (answer ≡ Err tuf.NoMemory) ⊎ ((answer ≡ Ok chain) × StaysWarm after.store offer) → IsOffered (Chain chain) result
      by_complete (inl h) = inl (e ∙ ap walked_as h)
      by_complete (inr (h, w)) = inr (e ∙ ap walked_as h)

  module _ (old new : Watched (List ℕ)) (chain : TrustChain) (tells : TellsArchive anchor old new chain) where
    held_is : held_in anchor tells.bytes ≡ Ok chain
    held_is = chain_complete anchor.crypto anchor.root anchor.now anchor.config.max_delegations trust_path tells.bytes chain tells.holds

    held_offered : (answer : Result Trust TrustFault) → result ≡ answer → IsHeld anchor tells.bytes answer → IsOffered (Chain chain) result
    held_offered (Ok trust) is (found, same, held, holds) =
        inr (is ∙ ap (λ (t : Trust). Ok t) (same ∙ ap (λ (c : TrustChain). Chain c) (ok_same found chain (sym held ∙ held_is))))
    held_offered (Err why) is (inl w) = inl (is ∙ ap (λ (f : TrustFault). Err f) w)
    held_offered (Err why) is (inr (e, same, held, cause)) = no_both chain e (sym held_is ∙ held)

    archived_offered : Archived anchor old new result → IsOffered (Chain chain) result
    archived_offered (unread u e) =
        absurd (never_unread old new max_archive tells.bytes tells.told.told (λ rose. quiet_not_rose old.faults new.faults tells.told.quiet rose) tells.short u)
    archived_offered (read bytes w h) =
        held_offered result refl (subst (λ b. IsHeld anchor b result) (same_whole old new max_archive tells.bytes bytes tells.told.told w) h)
    archived_offered (wanting e) = inl e

  handed_offered : (answer : Result Trust TrustFault) → result ≡ answer → Handed anchor answer → IsOffered (File anchor.root) result
  handed_offered (Ok trust) is h = inr (is ∙ ap (λ (t : Trust). Ok t) h)
  handed_offered (Err why) is h = inl (is ∙ ap (λ (f : TrustFault). Err f) h)

  as_trust : (trust other : Trust) → trust ≡ other → IsOffered other result → IsOffered trust result
  as_trust trust other e o = subst (λ (t : Trust). IsOffered t result) (sym e) o

  offered_is : (by : TrustedBy) (before after : Sources) (trust : Trust) → OffersTrust anchor by before after trust
      → GivesTrust anchor by before after result → IsOffered trust result
  offered_is way.Repository before after trust (chain, same, offer) (by_repository is (answer, p, e) unasked) =
      as_trust trust (Chain chain) same (walked_offered (places_of before) (places_of after) chain offer answer p e)
  offered_is way.Repository before after trust offers (by_archive is same a) = cc
  offered_is way.Repository before after trust offers (by_caller is same h) = cc
  offered_is way.Archive before after trust offers (by_repository is w same) = cc
  offered_is way.Archive before after trust (chain, same, tells) (by_archive is unasked a) =
      as_trust trust (Chain chain) same (archived_offered before.archive after.archive chain tells a)
  offered_is way.Archive before after trust offers (by_caller is same h) = cc
  offered_is way.Caller before after trust offers (by_repository is w same) = cc
  offered_is way.Caller before after trust offers (by_archive is same a) = cc
  offered_is way.Caller before after trust offers (by_caller is same h) = as_trust trust (File anchor.root) offers (handed_offered result refl h)

-- so nothing is said of a fault
pub never_untrusted : (anchor : Anchor) (by : TrustedBy) (before after : Sources) (trust : Trust) (why : TrustFault) (said : Answer)
    → OffersTrust anchor by before after trust → GivesTrust anchor by before after (Err why) → untrusted_answer why ≡ Some said → ⊥
never_untrusted anchor by before after trust why said offers given h = by_offered (offered_is anchor (Err why) by before after trust offers given)
  where
    unsaid : (f : TrustFault) → f ≡ fault.NoMemory → untrusted_answer f ≡ Some said → ⊥
    unsaid f e a = absurd (nothing (subst (λ (x : TrustFault). untrusted_answer x ≡ Some said) e a))
      where
        nothing : untrusted_answer fault.NoMemory ≡ Some said → ⊥
        nothing eq = cc

    by_offered : (◌≡◌ {A = Result Trust TrustFault} (Err why) (Err fault.NoMemory)) ⊎ (◌≡◌ {A = Result Trust TrustFault} (Err why) (Ok trust)) → ⊥
    by_offered (inl w) = unsaid why (err_same why fault.NoMemory w) h
    by_offered (inr e) = no_both trust why (sym e)

-- and what is given is what is offered
pub given_offered : (anchor : Anchor) (by : TrustedBy) (before after : Sources) (trust found : Trust) → OffersTrust anchor by before after trust
    → GivesTrust anchor by before after (Ok found) → found ≡ trust
given_offered anchor by before after trust found offers given = by_offered (offered_is anchor (Ok found) by before after trust offers given)
  where
    by_offered : (◌≡◌ {A = Result Trust TrustFault} (Ok found) (Err fault.NoMemory)) ⊎ (◌≡◌ {A = Result Trust TrustFault} (Ok found) (Ok trust)) → found ≡ trust
    by_offered (inl w) = no_both found fault.NoMemory w
    by_offered (inr e) = ok_same found trust e
