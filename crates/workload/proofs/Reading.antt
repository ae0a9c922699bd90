-- The documents' bytes are read as their contents.
use Rattle.std.proofs.Common.{◌≡◌, ℕ, ◌≤◌, List, [], ◌∷◌, false, true, Some, Ok, refl, ap, ◌∙◌, codes, eq-eqb}
use Rattle.std.specs.Prelude.{Result, option_map}
use Rattle.std.specs.Result.{result_ok}
use Rattle.json.specs.Tree as tree
use Rattle.serde_json.specs.Data.{Data}
use Rattle.serde_json.specs.Read.{max_depth, of_json}
use Rattle.serde_json.specs.Written.{outline, compact_text}
use Rattle.sigstore_types_parts.specs.Instant.{instant_of, at_nanosecond}
use Rattle.sigstore_types_parts.specs.Parse.{parsed_of}
use Rattle.sigstore_types_parts.specs.Read.{required_of, optional_of, defaulted_of, sequence_of, map_of}
use Rattle.sigstore_tuf_text.specs.Canon.{canon}
use Rattle.sigstore_tuf_text.specs.Others.{others_of}
use Rattle.sigstore_tuf_text.specs.declared.error.Error.{Error}
use Rattle.sigstore_tuf_parts.specs.Document.{document_of, document_in, value_of, frame_of, signature_of, content_of}
use Rattle.sigstore_tuf_parts.specs.Head.{head_of}
use Rattle.sigstore_tuf_parts.specs.Header.{header_of, kind_of, spec_version_of, is_version_one_text}
use Rattle.sigstore_tuf_parts.specs.Keys.{key_val_of, key_in_of, role_keys_of}
use Rattle.sigstore_tuf_parts.specs.Root.{root_of}
use Rattle.sigstore_tuf_parts.specs.RootRoles.{root_document}
use Rattle.sigstore_tuf_parts.specs.Timestamp.{meta_file_of, timestamp_of}
use Rattle.sigstore_tuf_parts.specs.Snapshot.{snapshot_of}
use Rattle.sigstore_tuf_parts.specs.Targets.{target_file_of, targets_of}
use Rattle.sigstore_tuf_rules.specs.Documents.{timestamp_document, snapshot_document, targets_document}
use Rattle.workload.specs.Trust.{trust_value, trust_file}
use Rattle.workload.specs.Documents.{soon, later, key_value, role_value, roles_value, target_value, head_members, pinning, root_signed}
use Rattle.workload.specs.Documents.{timestamp_signed, snapshot_signed, targets_signed, signature_value, document_value, document_text}
use Rattle.workload.specs.Documents.{root_bytes, timestamp_bytes, snapshot_bytes, targets_bytes}
use Rattle.workload.specs.Published.{target}
use Rattle.workload.proofs.Contents.{soon_instant, later_instant, the_key, the_keys, the_role, the_signature, the_pin}
use Rattle.workload.proofs.Contents.{root_content, timestamp_content, snapshot_content, targets_content}
use Rattle.workload.proofs.Contents.{signed_by_one, root_doc, timestamp_doc, snapshot_doc, targets_doc}
use Rattle.workload.proofs.Literals.{soon_read, later_read}
use Rattle.workload.proofs.Texts.{root_writable, root_back, root_low, timestamp_writable, timestamp_back, timestamp_low}
use Rattle.workload.proofs.Texts.{snapshot_writable, snapshot_back, snapshot_low, targets_writable, targets_back, targets_low}
use Rattle.workload.proofs.Texts.{trust_writable, trust_back, trust_low}
use Rattle.workload.proofs.Writable.{is_writable, text_is_utf8, text_is_read, no_float}

-- ---- any document that is signed so

pub text_parsed : (d : Data) → is_writable d ≡ true → of_json (outline d) ≡ Some d → tree.depth (outline d) ≤ max_depth
    → parsed_of (compact_text d) ≡ Ok d
unfolding parsed_of
text_parsed d writable back low =
    rw (eq-eqb _ _ (text_is_utf8 d writable), text_is_read d writable back low, no_float d writable)

value_read : (d : Data) → is_writable d ≡ true → of_json (outline d) ≡ Some d → tree.depth (outline d) ≤ max_depth
    → value_of (compact_text d) ≡ Ok d
unfolding value_of
value_read d writable back low = rw (text_parsed d writable back low)

in_frame : {T : Type 0} (kind : List ℕ) (reads : Data → Result T Error) (signed : Data) (content : T)
    → header_of kind signed ≡ Ok tt → reads signed ≡ Ok content
    → document_in kind reads (document_value signed) ≡ Ok (signed_by_one content (canon signed))
unfolding document_in frame_of content_of sequence_of signature_of required_of document_value signature_value the_signature
in_frame kind reads signed content header read = rw (header, read)

document_read : {T : Type 0} (kind : List ℕ) (reads : Data → Result T Error) (signed : Data) (content : T)
    → value_of (document_text signed) ≡ Ok (document_value signed) → header_of kind signed ≡ Ok tt → reads signed ≡ Ok content
    → document_of kind reads (document_text signed) ≡ Ok (signed_by_one content (canon signed))
unfolding document_of
document_read kind reads signed content value header read = rw value (in_frame kind reads signed content header read)

-- ---- the trust file

pub trust_parsed : parsed_of trust_file ≡ Ok trust_value
unfolding trust_file
trust_parsed = text_parsed trust_value trust_writable trust_back trust_low

-- ---- instants

soon_is : instant_of soon ≡ Some soon_instant
unfolding instant_of soon_instant
soon_is = ap (λ r. option_map at_nanosecond (result_ok r)) soon_read

later_is : instant_of later ≡ Some later_instant
unfolding instant_of later_instant
later_is = ap (λ r. option_map at_nanosecond (result_ok r)) later_read

-- ---- the root

root_header : header_of (codes "root") root_signed ≡ Ok tt
unfolding header_of kind_of spec_version_of is_version_one_text root_signed head_members
root_header = refl

root_members : root_of root_signed ≡ Ok root_content
unfolding root_of head_of required_of defaulted_of map_of sequence_of key_in_of key_val_of role_keys_of others_of root_signed key_value roles_value role_value root_content the_keys the_key the_role head_members
root_members = rw later_is

pub root_read : root_document root_bytes ≡ Ok root_doc
unfolding root_bytes
root_read =
    document_read (codes "root") root_of root_signed root_content (value_read (document_value root_signed) root_writable root_back root_low)
    root_header root_members

-- ---- the timestamp

timestamp_header : header_of (codes "timestamp") timestamp_signed ≡ Ok tt
unfolding header_of kind_of spec_version_of is_version_one_text timestamp_signed pinning head_members
timestamp_header = refl

timestamp_members : timestamp_of timestamp_signed ≡ Ok timestamp_content
unfolding timestamp_of head_of required_of optional_of map_of meta_file_of others_of timestamp_signed pinning timestamp_content the_pin head_members
timestamp_members = rw soon_is

pub timestamp_read : timestamp_document timestamp_bytes ≡ Ok timestamp_doc
unfolding timestamp_bytes
timestamp_read =
    document_read (codes "timestamp") timestamp_of timestamp_signed timestamp_content
    (value_read (document_value timestamp_signed) timestamp_writable timestamp_back timestamp_low) timestamp_header timestamp_members

-- ---- the snapshot

snapshot_header : header_of (codes "snapshot") snapshot_signed ≡ Ok tt
unfolding header_of kind_of spec_version_of is_version_one_text snapshot_signed pinning head_members
snapshot_header = refl

snapshot_members : snapshot_of snapshot_signed ≡ Ok snapshot_content
unfolding snapshot_of head_of required_of optional_of map_of meta_file_of others_of snapshot_signed pinning snapshot_content the_pin head_members
snapshot_members = rw later_is

pub snapshot_read : snapshot_document snapshot_bytes ≡ Ok snapshot_doc
unfolding snapshot_bytes
snapshot_read =
    document_read (codes "snapshot") snapshot_of snapshot_signed snapshot_content
    (value_read (document_value snapshot_signed) snapshot_writable snapshot_back snapshot_low) snapshot_header snapshot_members

-- ---- the targets document

targets_header : header_of (codes "targets") targets_signed ≡ Ok tt
unfolding header_of kind_of spec_version_of is_version_one_text targets_signed head_members
targets_header = refl

targets_members : targets_of targets_signed ≡ Ok targets_content
unfolding targets_of head_of required_of optional_of map_of target_file_of others_of targets_signed target_value targets_content target head_members
targets_members = rw later_is

pub targets_read : targets_document targets_bytes ≡ Ok targets_doc
unfolding targets_bytes
targets_read =
    document_read (codes "targets") targets_of targets_signed targets_content
    (value_read (document_value targets_signed) targets_writable targets_back targets_low) targets_header targets_members
