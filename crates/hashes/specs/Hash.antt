-- One word more in a hash of words.
use Rattle.std.specs.Prelude.{ℕ, ◌+◌, ◌*◌, ◌%◌, ◌^◌}

abbrev pub hash_word : ℕ → ℕ → ℕ
hash_word h w = (31 * h + w) % 2 ^ 32
