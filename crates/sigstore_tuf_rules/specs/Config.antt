-- The limits that hold where none are given.
use Rattle.sigstore_tuf_rules.specs.declared.config.UpdaterConfig.{UpdaterConfig}

abbrev pub default_config : UpdaterConfig
default_config = record {
  root_max_length = 512000;
  timestamp_max_length = 16384;
  snapshot_max_length = 2000000;
  targets_max_length = 5000000;
  target_max_length = 50000000;
  max_root_rotations = 32;
  max_delegations = 32;
}
