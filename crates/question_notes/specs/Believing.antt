-- Who decides in a run of questions.
use Rattle.std.specs.Prelude.{not}
use Rattle.sigstore_keys.specs.Crypto.{Crypto}
use Rattle.command_files.specs.Rows.{AcceptRows, accepts_of}
use Rattle.sigstore_pem.specs.Pem.{content_of, key_label, certificate_label, is_armored_text}

-- the signatures that are refused aren't good, and all others are; what a text holds is read in it
abbrev pub believing : AcceptRows → Crypto
believing refused = record {
  accepts = λ scheme key subject signature. not (accepts_of refused scheme key subject signature);
  armored = is_armored_text;
  key_in = content_of key_label;
  certificate_in = content_of certificate_label;
}
