-- Requests to logs: of the first version by Rekor's API, of the second by that of C2SP tlog-tiles.
use Rattle.std.specs.Prelude.{ℕ, List, [], ◌++◌, codes, decimal, Option}
use Rattle.sigstore_entries.specs.declared.log_index.LogIndex.{LogIndex}
use Rattle.sigstore_rekor.specs.TilePath.{tile_path_of}
use Rattle.sigstore_rekor.specs.Written.{hashed_rekord_text_of, dsse_text_of, hashed_rekord_v2_text_of, search_text_of}
use Rattle.sigstore_rekor.specs.declared.entry_uuid.EntryUuid.{EntryUuid}
use Rattle.sigstore_rekor.specs.declared.hashed_rekord.HashedRekord.{HashedRekord}
use Rattle.sigstore_rekor.specs.declared.dsse_entry.DsseEntry.{DsseEntry}
use Rattle.sigstore_rekor.specs.declared.hashed_rekord_v2.HashedRekordV2.{HashedRekordV2}
use Rattle.sigstore_rekor.specs.declared.queries.SearchIndex.{SearchIndex}
use Rattle.sigstore_rekor.specs.declared.queries.SearchIndex.TheVariants.{ByHash}
use Rattle.sigstore_rekor.specs.declared.request.Method.TheVariants.{Get, Post}
use Rattle.sigstore_rekor.specs.declared.request.Request.{Request}

abbrev pub asked : List ℕ → Request
asked path = record { method = Get; path = path; body = [] }

abbrev pub sent : List ℕ → List ℕ → Request
sent path body = record { method = Post; path = path; body = body }

-- ---- the first version

abbrev pub entry_by_uuid_of : EntryUuid → Request
entry_by_uuid_of uuid = asked (codes "/api/v1/log/entries/" ++ uuid.text)

abbrev pub entry_by_index_of : LogIndex → Request
entry_by_index_of index = asked (codes "/api/v1/log/entries?logIndex=" ++ decimal index.value)

abbrev pub entry_request_of : HashedRekord → Request
entry_request_of entry = sent (codes "/api/v1/log/entries") (hashed_rekord_text_of entry)

abbrev pub dsse_request_of : DsseEntry → Request
dsse_request_of entry = sent (codes "/api/v1/log/entries") (dsse_text_of entry)

abbrev pub search_request_of : SearchIndex → Request
search_request_of query = sent (codes "/api/v1/index/retrieve") (search_text_of query)

abbrev pub hash_request_of : List ℕ → Request
hash_request_of hash = search_request_of (ByHash hash)

-- ---- the second version

abbrev pub v2_request_of : HashedRekordV2 → Request
v2_request_of entry = sent (codes "/api/v2/log/entries") (hashed_rekord_v2_text_of entry)

abbrev pub checkpoint_request : Request
checkpoint_request = asked (codes "/api/v2/checkpoint")

abbrev pub tile_request_of : ℕ → ℕ → Option ℕ → Request
tile_request_of level index width = asked (codes "/api/v2/tile/" ++ (decimal level ++ (codes "/" ++ tile_path_of index width)))

abbrev pub bundle_request_of : ℕ → Option ℕ → Request
bundle_request_of index width = asked (codes "/api/v2/tile/entries/" ++ tile_path_of index width)
