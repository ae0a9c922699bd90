use Rattle.std.proofs.Common.{◌≡◌, length, sym, subst, ◌∙◌, arith}
use Rattle.std.proofs.lemmas.List.{take_at}
use Rattle.sigstore_keys.specs.Hasher.{Fed, Grows}
use Rattle.sigstore_judgement.specs.Taken.{Finalized}
use Rattle.sigstore_judgement.proofs.Taken.{fed_are, fed_length, finalized_are}
use Rattle.sigstore_judgement.proofs.taking.read_digests.Goals as goal

pub returns-in-Ok-finalize_all : goal.returns-in-Ok-finalize_all
returns-in-Ok-finalize_all g c hashed =
    let bytes = c.in-Ok.ensures.0 in
    let t = c.in-Ok.ensures.1 in
    let hashers = c.in_ok-hashers.hashers in
    let after = c.hash_reader.new.hashers in
    let digests = c.in-Ok-finalize_all.digests in
    let fed : Fed Grows hashers.items after bytes = subst (λ hs. Fed Grows hs after bytes) c.as_mut_slice.ensures.value t.fed in
    let full : length after ≡ hashers.len = fed_length hashers.items after bytes fed ∙ sym hashers.ok.0 in
    record {
      later = t.later;
      within = (bytes, t.given, (let short = t.answer.1 in omega arith));
      taken = (
        bytes,
        record { given = t.given; ended = t.answer.2; short = t.answer.1 },
        finalized_are after c.args.algorithms.now digests bytes (fed_are hashers.items after c.args.algorithms.now bytes fed c.in_ok-hashers.ensures.ok)
            (subst (λ ks. Finalized ks digests) (take_at after _ hashers.len full) c.in-Ok-finalize_all.ensures.ok),
      );
      refused = tt;
    }
