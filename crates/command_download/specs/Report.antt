-- The lines that `download` writes.
use Rattle.std.specs.Prelude.{ℕ, List, [], ◌∷◌, ◌++◌, length, codes, Option, Some, None}
use Rattle.std.specs.Fmt.{decimal}
use Rattle.hex.specs.Hex.{encode_lower}
use Rattle.sha2.specs.Sha256.{sha256}
use Rattle.sigstore_tuf_text.specs.declared.error.Error.{Error}
use Rattle.sigstore_tuf_text.specs.Error as tuf
use Rattle.sigstore_tuf_parts.specs.declared.snapshot.Snapshot.{Snapshot}
use Rattle.sigstore_tuf_parts.specs.declared.targets.Targets.{Targets}
use Rattle.sigstore_tuf_parts.specs.declared.timestamp.Timestamp.{Timestamp}
use Rattle.sigstore_tuf_parts.specs.Document.{content_in}
use Rattle.sigstore_tuf_rules.specs.declared.chain.TrustChain.{TrustChain}
use Rattle.sigstore_tuf_rules.specs.declared.documents.Held.{Held}
use Rattle.sigstore_tuf_rules.specs.declared.documents.InForce.{InForce}
use Rattle.sigstore_tuf_rules.specs.Documents.{content_of}
use Rattle.sigstore_tuf_rules.specs.Taking.{top_targets}
use Rattle.command_files.specs.Printed.{printed, line_of, pair_line, number_line, named_line, refused_line}
use Rattle.command_download.specs.declared.layout.Download.{Download}

-- ---- the documents in force

abbrev pub timestamp_text : Option (Held Timestamp) → List ℕ
timestamp_text None = []
timestamp_text (Some held) = number_line (codes "timestamp") (content_of held).version

abbrev pub snapshot_text : Option (Held Snapshot) → List ℕ
snapshot_text None = []
snapshot_text (Some held) = number_line (codes "snapshot") (content_of held).version

abbrev pub targets_text : Option (Held Targets) → List ℕ
targets_text None = []
targets_text (Some held) = named_line (codes "role") (codes "targets") (content_of held).version

-- the versions of the top-level documents, as `check` writes them
unfoldable pub versions_text : InForce → List ℕ
versions_text set =
    number_line (codes "root") (content_in set.root).version ++ timestamp_text set.timestamp ++ snapshot_text set.snapshot
    ++ targets_text (top_targets set)

-- ---- the targets

-- a target's name, the length of its file, and the file's digest (FIPS 180-4), whichever ones are listed
unfoldable pub target_line : List ℕ → List ℕ → List ℕ
target_line name file =
    pair_line (codes "target") (printed name ++ 32 ∷ decimal (length file) ++ 32 ∷ codes "sha256" ++ 32 ∷ encode_lower (sha256 file))

-- a line for each file that was put in its place
abbrev pub targets_lines : List Download → List TrustChain → List ℕ
targets_lines downloads [] = []
targets_lines [] (chain ∷ chains) = []
targets_lines (download ∷ downloads) (chain ∷ chains) = target_line download.target chain.file ++ targets_lines downloads chains

-- ---- the whole

-- all targets are in their places
unfoldable pub report_of : InForce → List Download → List TrustChain → List ℕ
report_of set downloads chains = (line_of (codes "downloaded") ++ versions_text set) ++ targets_lines downloads chains

-- these are, and the next one was refused
unfoldable pub refusal_of : List Download → List TrustChain → Error → List ℕ
refusal_of downloads chains e = targets_lines downloads chains ++ refused_line (codes "tuf") (tuf.number_of e) (tuf.name_of e)

-- these are, and the file of the next one couldn't be put in its place
unfoldable pub unplaced_of : List Download → List TrustChain → List ℕ
unplaced_of downloads chains = targets_lines downloads chains ++ pair_line (codes "output") (codes "file")
