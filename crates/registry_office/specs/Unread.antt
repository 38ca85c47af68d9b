-- Words for which no memory was found.
use Rattle.std.specs.Prelude.{◌≡◌}
use Rattle.registry_office.specs.declared.statuses.Status.{Status}
use Rattle.registry_office.specs.declared.statuses.Status.TheVariants as status

-- No memory was found to read the words, and no object was touched.
pub record IsUnread {S K D C L : Type 0} (source_old source_new : S) (sink_old sink_new : K) (disk_old disk_new : D) (clock_old clock_new : C) (door_old door_new : L) (result : Status) : Type 0 where
  pub memory : result ≡ status.Memory
  pub source : source_new ≡ source_old
  pub sink : sink_new ≡ sink_old
  pub disk : disk_new ≡ disk_old
  pub clock : clock_new ≡ clock_old
  pub door : door_new ≡ door_old
