-- What the words of the command line ask.
use mathlib.Core.Bool.{Bool, true}
use mathlib.Core.Path.{◌≡◌}
use Rattle.queue.specs.Command.{next_asked}
use Rattle.queue.specs.declared.Asked.{Asked}
use Rattle.queue.specs.declared.Asked.TheVariants.{File, Options}
use Rattle.queue.specs.declared.Word.{Word}
use Rattle.queue.specs.declared.Word.TheVariants.{Name, Stop, Try}

module _ (a : Asked) (w : Word) (stop trial : Bool) (is : a ≡ Options stop trial) where
  pub asked_stop : w ≡ Stop → Options true trial ≡ next_asked a w
  asked_stop e = rw (is, e)

  pub asked_try : w ≡ Try → Options stop true ≡ next_asked a w
  asked_try e = rw (is, e)

  pub asked_file : w ≡ Name → File stop trial ≡ next_asked a w
  asked_file e = rw (is, e)
