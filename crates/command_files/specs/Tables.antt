-- The provider file, and what its tables answer.
use Rattle.std.specs.Prelude.{ℕ, List, [], drop, bytes_eq, codes, is_some, Bool, ◌||◌, if◌then◌else◌, Option, Result, Ok, Err}
use Rattle.std.specs.BTreeMap.{insert_entry}
use Rattle.std.specs.Result.{result_ok}
use Rattle.base64.specs.Engines.{standard}
use Rattle.base64.specs.GeneralPurpose.{decode_of}
use Rattle.foundation.specs.Steps.{◌>>=◌}
use Rattle.sigstore_types_parts.specs.Entries.{text_cmp, at_name}
use Rattle.sigstore_keys.specs.Crypto.{Crypto}
use Rattle.command_files.specs.Lines.{file_folded_of}
use Rattle.command_files.specs.Rows.{parted_of, with_accept_row, accept_row_of, accepts_of, is_der, ArmorRows, armor_row_of}
use Rattle.command_files.specs.declared.usage_fault.UsageFault.{UsageFault}
use Rattle.command_files.specs.declared.usage_fault.UsageFault.TheVariants.{Usage}
use Rattle.command_files.specs.declared.rows.ArmorRow.{ArmorRow}
use Rattle.command_files.specs.declared.tables.TableArmor.{TableArmor}
use Rattle.command_files.specs.declared.tables.TableProvider.{TableProvider}
use Rattle.command_files.specs.declared.tables.Tables.{Tables}

-- no text stands twice for one sort
abbrev pub with_armor_row : ArmorRows → ArmorRow → Result ArmorRows UsageFault
with_armor_row rows row =
    if is_some (at_name row.text rows) then Err Usage else Ok (insert_entry text_cmp rows row.text row.der)

-- `key TEXT DER` or `certificate TEXT DER`
abbrev pub armor_line_of : TableArmor → List ℕ → Result TableArmor UsageFault
armor_line_of armor text = do
  parts ← parted_of text
  row ← armor_row_of parts.1
  if bytes_eq parts.0 (codes "key") then
      (with_armor_row armor.keys row >>= λ keys. Ok (record { keys = keys; certificates = armor.certificates })) else
      if bytes_eq parts.0 (codes "certificate") then
      (with_armor_row armor.certificates row >>= λ certificates. Ok (record { keys = armor.keys; certificates = certificates })) else
      Err Usage

abbrev pub accept_line_of : TableProvider → List ℕ → Result TableProvider UsageFault
accept_line_of provider text = do
  row ← accept_row_of text
  Ok (record { rows = with_accept_row provider.rows row })

-- a line that begins with `accept` or `armor`
abbrev pub table_line_of : Tables → List ℕ → Result Tables UsageFault
table_line_of tables line = do
  parts ← parted_of line
  if bytes_eq parts.0 (codes "accept") then
      (accept_line_of tables.provider parts.1 >>= λ provider. Ok (record { provider = provider; armor = tables.armor })) else
      if bytes_eq parts.0 (codes "armor") then
      (armor_line_of tables.armor parts.1 >>= λ armor. Ok (record { provider = tables.provider; armor = armor })) else
      Err Usage

abbrev pub no_rows : Tables
no_rows = record { provider = record { rows = [] }; armor = record { keys = []; certificates = [] } }

-- the tables of a file
unfoldable pub tables_of : List ℕ → Result Tables UsageFault
tables_of bytes = file_folded_of table_line_of no_rows bytes

-- a text is armoured that begins with `der:` or is a row's
abbrev pub is_armored_by : TableArmor → List ℕ → Bool
is_armored_by armor text = is_der text || is_some (at_name text armor.keys) || is_some (at_name text armor.certificates)

-- what a text holds: the bytes that stand in base64 behind `der:`, or what its row says
abbrev pub armor_content : ArmorRows → List ℕ → Option (List ℕ)
armor_content rows text = if is_der text then result_ok (decode_of standard (drop 4 text)) else at_name text rows

-- who decides signatures and reads armoured texts by these tables
abbrev pub crypto_of : Tables → Crypto
crypto_of tables = record {
  accepts = accepts_of tables.provider.rows;
  armored = is_armored_by tables.armor;
  key_in = armor_content tables.armor.keys;
  certificate_in = armor_content tables.armor.certificates;
}
