use Rattle.std.proofs.Common.{◌≡◌, inl, inr, length, refl, sym, subst, ◌∙◌, arith}
use Rattle.std.proofs.lemmas.List.{take_at}
use Rattle.sigstore_keys.specs.Hasher.{Fed, Grows}
use Rattle.sigstore_judgement.specs.Taken.{Finalized}
use Rattle.sigstore_judgement.proofs.Taken.{fed_are, fed_length, finalized_are}
use Rattle.release_gate.proofs.Readings.{digests_none}
use Rattle.release_gate.proofs.Verdicts.{taken_nothing}
use Rattle.release_gate.proofs.reading.take_digests.Goals as goal

pub returns-in-Err-clause-takes : goal.returns-in-Err-clause-takes
returns-in-Err-clause-takes g c hashed = (0, taken_nothing _ _ c.args.algorithms.now c.in-Err.e c.in-Err.ensures.err hashed)

pub returns-in-Ok-finalize_all-clause-takes : goal.returns-in-Ok-finalize_all-clause-takes
returns-in-Ok-finalize_all-clause-takes g c hashed =
    let bytes = c.in-Ok-hash_file.ensures.reads.bytes in
    let t = c.in-Ok-hash_file.ensures.reads.took in
    let hashers = c.in-Ok.hashers in
    let after = c.hash_file.new.hashers in
    let digests = c.in-Ok-finalize_all.digests in
    let fed : Fed Grows hashers.items after bytes = subst (λ hs. Fed Grows hs after bytes) c.as_mut_slice.ensures.value t.fed in
    let full : length after ≡ hashers.len = fed_length hashers.items after bytes fed ∙ sym hashers.ok.0 in (
      c.in-Ok-hash_file.ensures.reads.count,
      record {
        later = t.later;
        within = (bytes, t.given, (let short = t.answer.1 in omega arith));
        taken = (
          bytes,
          record { given = t.given; ended = t.answer.2; short = t.answer.1 },
          finalized_are after c.args.algorithms.now digests bytes (fed_are hashers.items after c.args.algorithms.now bytes fed c.in-Ok.ensures.ok)
              (subst (λ ks. Finalized ks digests) (take_at after _ hashers.len full) c.in-Ok-finalize_all.ensures.ok),
        );
        refused = tt;
      },
    )

pub returns-in-Err-clause-digests : goal.returns-in-Err-clause-digests
returns-in-Err-clause-digests g c hashed = digests_none _ _ _ _ c.args.algorithms.now _ _ c.in-Err.e c.in-Err.ensures.err hashed

pub returns-in-Ok-finalize_all-clause-digests : goal.returns-in-Ok-finalize_all-clause-digests
returns-in-Ok-finalize_all-clause-digests g c hashed =
    let h = c.in-Ok-hash_file.ensures.reads in
    let hashers = c.in-Ok.hashers in
    let after = c.hash_file.new.hashers in
    let digests = c.in-Ok-finalize_all.digests in
    let fed : Fed Grows hashers.items after h.bytes = subst (λ hs. Fed Grows hs after h.bytes) c.as_mut_slice.ensures.value h.took.fed in
    let full : length after ≡ hashers.len = fed_length hashers.items after h.bytes fed ∙ sym hashers.ok.0 in (
      h.bytes,
      h.given.0,
      h.given.1,
      finalized_are after c.args.algorithms.now digests h.bytes (fed_are hashers.items after c.args.algorithms.now h.bytes fed c.in-Ok.ensures.ok)
          (subst (λ ks. Finalized ks digests) (take_at after _ hashers.len full) c.in-Ok-finalize_all.ensures.ok),
    )

pub returns-in-Err-finalize_all-clause-digests : goal.returns-in-Err-finalize_all-clause-digests
returns-in-Err-finalize_all-clause-digests g c hashed = inl c.in-Err-finalize_all.ensures.err

pub returns-in-Err-hash_file-clause-digests : goal.returns-in-Err-hash_file-clause-digests
returns-in-Err-hash_file-clause-digests g c hashed =
    inr (c.in-Err-hash_file.fault, refl, c.in-Err-hash_file.ensures.reads.bytes, c.in-Err-hash_file.ensures.reads.given)
