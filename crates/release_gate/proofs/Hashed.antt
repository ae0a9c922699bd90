-- A file that is read to its end, by what its calls gave.
use Rattle.std.proofs.Common.{◌≡◌, ℕ, ◌+◌, ◌-◌, ◌<◌, ◌≤◌, List, [], ◌++◌, length, take, Result, Ok, Err, refl, sym, ap, subst, ◌∙◌, arith, append-nil, length-append}
use Rattle.std.specs.Io.KnownBytes.{prepend_known, IsAtEnd}
use Rattle.std.proofs.lemmas.List.{length-take-le}
use Rattle.foundation.specs.Watched.{Watched, Rose}
use Rattle.sigstore_keys.specs.declared.reader.ReadError.TheVariants as read
use Rattle.sigstore_keys.proofs.SoFar.{SoFar}
use Rattle.release_gate.specs.declared.folder.FolderFault.{FolderFault}
use Rattle.release_gate.specs.declared.folder.FolderFault.TheVariants as fault
use Rattle.release_gate.specs.Folder.{Contents, Call, piece_asked, Answers, PieceCause, source_of, left_of}
use Rattle.release_gate.specs.Given.{Gives, more, HashesFile}
use Rattle.release_gate.proofs.Sources.{next_given, gives_end}

rose_by : (old new : Watched Contents) (e : FolderFault) → PieceCause old new e → Rose old.faults new.faults
rose_by old new fault.Failed h = h
rose_by old new (fault.TooLong seen) h = absurd h
rose_by old new fault.NoMemory h = absurd h

module _ (D H : Type 0) (gave : D → Call → D → Type 0) (grows : H → List ℕ → H → Type 0) (seen : D → Watched Contents)
    (answers : (d e : D) (call : Call) → gave d call e → Answers (seen d) call (seen e))
    (old mid new : D) (name : List ℕ) (hashers hashers' : List H) (max left : ℕ) (bytes buf : List ℕ)
    (so_far : SoFar grows (source_of (seen old) name 0) (source_of (seen mid) name (length bytes)) hashers hashers' max left bytes)
    (gives : Gives gave name old bytes mid) where
  at_end : max - left ≡ length bytes
  at_end = let whole = so_far.taken in omega (arith, whole)

  within : length bytes ≤ max
  within = let whole = so_far.taken in omega (arith, whole)

  call_at : (result : Result ℕ FolderFault) → gave mid (piece_asked name (max - left) buf result) new → gave mid (piece_asked name (length bytes) buf result) new
  call_at result call = subst (λ o. gave mid (piece_asked name o buf result) new) at_end call

  -- a piece more was given
  pub gives_more : (count : ℕ) → gave mid (piece_asked name (max - left) buf (Ok count)) new → Gives gave name old (bytes ++ take count buf) new
  gives_more count call = more bytes buf count mid new gives (call_at (Ok count) call)

  -- what was taken so far stays so
  kept : (seen new).told ≡ (seen mid).told → (source_of (seen old) name 0).told ≡ prepend_known bytes (source_of (seen new) name (length bytes)).told
  kept same = so_far.given ∙ ap (λ t. prepend_known bytes (left_of t name (length bytes))) (sym same)

  hashed_whole : gave mid (piece_asked name (max - left) buf (Ok 0)) new → 0 < length buf → HashesFile gave grows seen old new name hashers hashers' max (Ok (max - left))
  hashed_whole call room =
      let r = answers mid new (piece_asked name (max - left) buf (Ok 0)) call in
      let one = so_far.later in
      let two = r.since.later in
      let there : (max - left) + 0 ≡ length bytes = omega (arith, at_end) in
      let end_there : IsAtEnd (left_of (seen mid).told name ((max - left) + 0)) = gives_end (seen mid).told name (max - left) 0 buf r.given refl room in
      let end_here : IsAtEnd (left_of (seen mid).told name (length bytes)) = subst (λ o. IsAtEnd (left_of (seen mid).told name o)) there end_there in
      record {
        count = length bytes;
        bytes = bytes;
        took = record {
          later = omega (arith, one, two);
          given = kept r.since.same;
          answer = (at_end, within, subst (λ t. IsAtEnd (left_of t name (length bytes))) (sym r.since.same) end_here);
          fed = so_far.fed;
        };
        given = (record { mid = mid; given = gives; buf = buf; room = room; ended = call_at (Ok 0) call }, within);
      }

  pub hashed_end : (count : ℕ) → count ≡ 0 → gave mid (piece_asked name (max - left) buf (Ok count)) new → 0 < length buf
      → HashesFile gave grows seen old new name hashers hashers' max (Ok (max - left))
  hashed_end count none call room = hashed_whole (subst (λ n. gave mid (piece_asked name (max - left) buf (Ok n)) new) none call) room

  pub hashed_over : (count : ℕ) → gave mid (piece_asked name (max - left) buf (Ok count)) new → left < count → length buf ≤ left + 1
      → HashesFile gave grows seen old new name hashers hashers' max (Err (read.TooLong max))
  hashed_over count call over room =
      let r = answers mid new (piece_asked name (max - left) buf (Ok count)) call in
      let one = so_far.later in
      let two = r.since.later in
      let fits : count ≤ length buf = r.bound.0 in
      let full : length (take count buf) ≡ count = length-take-le count buf fits in
      let whole = so_far.taken in
      let long : length (bytes ++ take count buf) ≡ max + 1 = length-append bytes (take count buf) ∙ omega (arith, full, whole, fits, room, over) in
      record {
        count = length (bytes ++ take count buf);
        bytes = bytes ++ take count buf;
        took = record {
          later = omega (arith, one, two);
          given = next_given _ (seen mid).told (seen new).told name bytes (max - left) count buf r.since.same at_end full r.given so_far.given;
          answer = (long, refl);
          fed = (bytes, take count buf, refl, so_far.fed);
        };
        given = (gives_more count call, omega (arith, long), refl);
      }

  pub hashed_part : (e : FolderFault) → gave mid (piece_asked name (max - left) buf (Err e)) new
      → HashesFile gave grows seen old new name hashers hashers' max (Err read.Failed)
  hashed_part e call =
      let r = answers mid new (piece_asked name (max - left) buf (Err e)) call in
      let one = so_far.later in
      let two = r.since.later in
      let failed : Rose (seen mid).faults (seen new).faults = rose_by (seen mid) (seen new) e r.refused in
      record {
        count = length bytes;
        bytes = bytes;
        took = record {
          later = omega (arith, one, two);
          given = kept r.since.same;
          answer = (within, omega (arith, one, failed));
          fed = (bytes, [], sym (append-nil bytes), so_far.fed);
        };
        given = record { mid = mid; given = gives; buf = buf; fault = e; failed = call_at (Err e) call };
      }
