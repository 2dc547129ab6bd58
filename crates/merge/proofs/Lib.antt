mod PrintLaws
mod InputLaws
