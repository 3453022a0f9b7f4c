-- What rules 1 to 12 and 36 give rules 13 to 15 and 37: sections that lie within the file, and lengths that fit the counts.
use Rattle.std.specs.Prelude.{◌≡◌, ℕ, ◌+◌, ◌/◌, ◌≤◌, true}
use Rattle.frame.specs.declared.Framed.{Framed}
use Rattle.frame.specs.Kind as kind

pub record Fit (size : ℕ) (x : Framed) : Type 0 where
  pub keys : x.opened.keys.start + x.opened.keys.len ≤ size
  pub offsets : x.opened.offsets.start + x.opened.offsets.len ≤ size
  pub partners : x.opened.partners.start + x.opened.partners.len ≤ size
  pub fences : x.fences.start + x.fences.len ≤ size
  pub starts : x.opened.indexed ≡ true → x.opened.starts.start + x.opened.starts.len ≤ size
  pub few : x.opened.keycount ≤ kind.most_keys
  pub keylen : x.opened.keys.len ≡ kind.keys_len x.opened.keycount
  pub offsetlen : x.opened.offsets.len ≡ kind.offsets_len x.opened.keycount (x.opened.bits / 8)
  pub startlen : x.opened.indexed ≡ true → x.opened.starts.len ≡ kind.starts_len x.opened.keycount
  pub narrow : 3 ≤ x.opened.bits / 8
  pub wide : x.opened.bits / 8 ≤ 6
