-- The solid (Solid::try_new): each shell in turn, 10, 11, 12, 13 (FORMAT 3.8).
use Rattle.std.specs.Prelude.{ℕ, Bool, List, [], ◌∷◌, ◌++◌, Result, Ok, Err, map, eqb, ltb, get_or, length}
use Rattle.lists.specs.Lists.{flat, numbers, unless}
use Rattle.errors.specs.Numbers.{Reply, done, refused}
use Rattle.pattern.specs.Contents.{Content}
use Rattle.shell.specs.Conditions.{condition}
use Rattle.shell.specs.Connected.{connected}
use Rattle.shell.specs.Shells.{listings_of, shell_uses}
use Rattle.shell.specs.Singular.{singular_points}
use Rattle.solid.specs.declared.ShellError.{ShellError}
use Rattle.solid.specs.declared.ShellError.TheVariants.{EmptyShell, NotClosedShell, NotConnected, NotManifold}
use Rattle.solid.specs.declared.SolidError.{SolidError}

abbrev pub reason_number : ShellError → ℕ
reason_number EmptyShell = 10
reason_number NotConnected = 11
reason_number NotClosedShell = 12
reason_number NotManifold = 13

-- number and values: the shell's own reason, with the shell
abbrev pub solid_error_reply : SolidError → Reply
solid_error_reply e = refused (reason_number e.reason) (e.shell ∷ [])

abbrev pub solid_reply : Result Unit SolidError → Reply
solid_reply (Ok x) = done []
solid_reply (Err e) = solid_error_reply e

-- the shell that a refusal names
abbrev pub solid_shell : Result Unit SolidError → ℕ
solid_shell a = get_or (solid_reply a).values 0 0

-- a shell with so many listings, of this condition, with so many singular points
abbrev pub errors_of : ℕ → Bool → ℕ → ℕ → List ShellError
errors_of listings connected condition singular =
    unless (ltb 0 listings) EmptyShell ++ unless connected NotConnected ++ unless (eqb condition 3) NotClosedShell ++ unless (eqb 0 singular) NotManifold

abbrev pub shell_errors : Content → ℕ → List ShellError
shell_errors c n = errors_of (length (listings_of c n)) (connected c n) (condition (shell_uses c n)) (length (singular_points c n))

-- a refusal names the shell and holds that shell's own reason
abbrev pub in_shell : ℕ → List ShellError → List SolidError
in_shell n es = map (λ (e : ShellError). record { shell = n; reason = e }) es

unfoldable pub solid_errors : Content → List SolidError
solid_errors c = flat (map (λ (n : ℕ). in_shell n (shell_errors c n)) (numbers (length c.shells)))

-- no shells: accepted
abbrev pub first_of_solid : List SolidError → Result Unit SolidError
first_of_solid [] = Ok tt
first_of_solid (e ∷ es) = Err e

abbrev pub solid_of : Content → Result Unit SolidError
solid_of c = first_of_solid (solid_errors c)
